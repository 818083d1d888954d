mod Ends
mod Pieces
mod Words
mod Sums
mod Makes
