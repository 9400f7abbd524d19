mod Arriving
mod Asking
