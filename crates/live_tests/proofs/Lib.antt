mod NodeNames
mod Pairs
