-- Words and property file compute by `refl` under `clap_on_literals` and `toml_on_literals`, each in a lemma of its own.
-- Class files and stubs are brought into byte order by exchanges: that is a permutation by definition.
-- A blank for a class far down in the program is not found within the limit of steps: write it out.
-- Steps on a new object hold in any world: what stands on its heap is a premise, by `refl` where the objects are written out.
-- Concrete code before an open rest: `two_there` rewrites the test of the length.
mod Words
mod Properties
mod Linked
mod Entry
mod Runs
mod ClassChecks
mod ClassFiles
mod Ends
mod ExampleRuns
