mod Steps
mod Powers
mod ShiftFacts
