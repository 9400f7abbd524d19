mod Asking
mod Keeping
mod Putting
