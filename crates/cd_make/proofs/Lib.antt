mod MakeLemmas
mod Worked
