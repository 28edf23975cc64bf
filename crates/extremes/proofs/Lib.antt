mod Pass
mod Five
mod Shuffles
mod OneOrder
mod Lead
