mod Answering
mod Waiting
mod Pushing
mod CallTrees
mod Refusing
mod OtherStyles
