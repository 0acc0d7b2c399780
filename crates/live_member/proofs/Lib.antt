mod Around
mod Journals
mod Begins
mod WithinLimits
mod ClaimSteps
mod HearSteps
mod AcceptSteps
mod PublishSteps
mod Loans
pub mod PublicLaws
