mod Bits
mod GreenSet
mod Runs
mod OneStage
mod StageFrom
mod StageBefore
