mod Chains
mod Jsons
mod Keys
mod Lists
mod OnlyReads
mod Registries
mod Scans
mod Sums
