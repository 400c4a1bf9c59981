mod Divisions
mod Pairs
mod Counted
mod Kept
mod WorkedLines
mod WorkedFigures
mod WorkedBewares
