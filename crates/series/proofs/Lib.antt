mod Digits
mod Rules
