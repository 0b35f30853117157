mod Attempts
mod Results
