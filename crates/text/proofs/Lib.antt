mod Growing
mod Back
