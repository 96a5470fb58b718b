mod Runs
mod Plans
mod Shapes
mod Outputs
mod OutputsParallel
mod WellOrdered
