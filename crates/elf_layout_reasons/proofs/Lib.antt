mod PairSteps
mod RoundsEnd
