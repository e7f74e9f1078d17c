-- `explain` meets its contract: the sentence stands at the front of bytes that were zero.
use Rattle.refusal_words.proofs.Explained.{said-holds}
use Rattle.refusal_words.proofs.sentence.explain.Goals as goal

pub returns : goal.returns
returns c = said-holds _ _ _ c.write_sentence-length.ensures.0 c.write_sentence-length.ensures.1
