mod DetailSteps
mod RuleSteps
