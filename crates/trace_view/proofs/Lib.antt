mod Counting
mod Fitting
