mod Capped
mod Strings
mod Sought
