mod FlawSteps
