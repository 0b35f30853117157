mod Fitting
mod Steps
