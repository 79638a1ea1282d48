mod Finds
mod JudgeNamed
mod Named
mod Told
