mod Behind
mod Stored
mod Names
