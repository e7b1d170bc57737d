mod Agreeing
mod Calls
mod Turns
