mod Run
mod Worked
mod WrongCalls
