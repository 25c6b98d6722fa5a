mod Feeds
mod Program
