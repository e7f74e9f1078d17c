-- `name_input` meets its contract: where there is room for the two words, they are written.
use Rattle.listings.specs.Parts.{bytes}
use Rattle.program_files.proofs.sources.name_input.Goals as goal

pub returns-clause-put : goal.returns-clause-put
unfolding bytes
returns-clause-put c = λ h. c.word.ensures
