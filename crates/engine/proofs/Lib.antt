-- `Passed` has what a taken call gives for its effect, `Effect` what each effect is made of, and `Outcome` how every call ends.
pub mod Passed
pub mod Effect
pub mod Outcome
