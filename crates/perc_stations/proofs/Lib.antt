mod Alone
mod Entered
mod Rounds
