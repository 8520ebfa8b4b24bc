mod Below
mod Turning
mod Lists
mod Outcomes
