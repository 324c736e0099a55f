mod Loading
mod Placing
mod Judging
mod Planning
mod Answering
