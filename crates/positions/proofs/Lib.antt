-- What the run leaves is what the analysis of its frames needs, and a law for each answer.
mod Positions
