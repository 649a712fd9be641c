mod Dates
mod JsonTexts
mod MomentTexts
mod PayloadTexts
mod ReplacedTexts
mod Sendings
mod TokenTexts
mod Worked
