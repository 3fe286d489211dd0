mod Calls
mod Keeping
