mod Single
mod WholeRuns
