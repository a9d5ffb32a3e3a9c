use Rattle.std.proofs.Common.{◌<◌, arith, reverse}
use Rattle.std.proofs.lemmas.List.{length-reverse}
use Rattle.std.proofs.lemmas.List.Sorted.{All-permutation, IsPermutation-reverse}
use Rattle.difference_system.proofs.IsClosingCircuit.{IsDistinct-moved}
use Rattle.difference_system.proofs.sums.guess.walk_of.Goals as goal

pub from_lowest-requires : goal.from_lowest-requires
from_lowest-requires c =
    let t = c.in-Some.trail in
    let some = rw c.in-Some.is at c.requires.some in
    let within = rw c.in-Some.is at c.requires.within in
    record {
      walk = rw c.groups.ensures.value (record {
        some = omega (arith, some, length-reverse t);
        few = rw c.groups.ensures.value at c.groups.ensures.few;
        within = All-permutation (λ g. g < 16) t (reverse t) (IsPermutation-reverse t) (λ k d below. omega (arith, within k d below, c.requires.few));
      });
    }

pub returns-in-Some-clause-once : goal.returns-in-Some-clause-once
returns-in-Some-clause-once c =
    let t = c.in-Some.trail in
    let once = rw c.in-Some.is at c.requires.once in
    IsDistinct-moved _ _ c.from_lowest.ensures.moved (rw c.groups.ensures.value (IsDistinct-moved t (reverse t) (IsPermutation-reverse t) once))

pub returns-in-Some-clause-within : goal.returns-in-Some-clause-within
returns-in-Some-clause-within c =
    let t = c.in-Some.trail in
    let within = rw c.in-Some.is at c.requires.within in
    All-permutation (λ g. g < c.args.groups) _ _ c.from_lowest.ensures.moved (rw c.groups.ensures.value (All-permutation (λ g. g < c.args.groups) t (reverse t) (IsPermutation-reverse t) within))
