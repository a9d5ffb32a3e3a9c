use Rattle.std.proofs.Common.{inl}
use Rattle.constraint_cycles.proofs.Trees.{closing_walk, sound_rises, all_nodes}
use Rattle.constraint_cycles.proofs.laws.tree_law.Goals as goal

pub returns-clause-full : goal.returns-clause-full
returns-clause-full c = λ m needs cycle nodes full tree refines decided. closing_walk m needs cycle full decided nodes _ tree.whole tree.visited tree.sound (inl refines)

pub returns-clause-needs : goal.returns-clause-needs
returns-clause-needs c = λ m needs more cycle nodes no_less tree. record {
  whole = tree.whole;
  visited = tree.visited;
  sound = all_nodes _ _ (λ marks node. sound_rises m needs more cycle marks node no_less) _ nodes tree.sound;
}
