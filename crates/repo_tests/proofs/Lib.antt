mod NodeNames
mod OneJob
