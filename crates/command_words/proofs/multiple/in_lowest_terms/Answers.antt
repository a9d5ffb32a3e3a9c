use Rattle.command_words.proofs.LowestTerms.{lowest_terms, in_range}
use Rattle.command_words.proofs.multiple.in_lowest_terms.Goals as goal

pub returns-clause-value : goal.returns-clause-value
returns-clause-value c = lowest_terms _ _ _ c.requires.some c.new.ensures.none c.new.ensures.value

pub returns-clause-in_range : goal.returns-clause-in_range
returns-clause-in_range c =
    in_range _ _ _ c.requires.some c.requires.num c.requires.den (lowest_terms _ _ _ c.requires.some c.new.ensures.none c.new.ensures.value)
