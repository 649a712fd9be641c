mod Closing
mod Composing
mod Counting
mod Creating
mod Missing
mod Results
mod Slots
mod Tellings
