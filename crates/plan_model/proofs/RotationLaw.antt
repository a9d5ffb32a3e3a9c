-- Why a rotated plan is as good.
use Rattle.std.proofs.Common.{ℕ, ◌≡◌, ◌+◌, ◌%◌, ◌<◌, ◌≤◌, length, get_or, refl, sym, ap, ◌∙◌, arith}
use Rattle.std.specs.Prelude.{All}
use Rattle.std.proofs.Math.Nat.{mod-lt, mod-add-mod}
use Rattle.std.proofs.lemmas.List.{get_or-map, length-map}
use Rattle.std.proofs.lemmas.List.Elements.{All-from_get_or, All-get_or}
use Rattle.conflict_matrix.specs.Links.{IsWithin}
use Rattle.junction_model.specs.Junction.{JunctionView}
use Rattle.junction_model.specs.Rules.{IsJunction}
use Rattle.plan_model.specs.SignalPlan.{PlanView, start_of}
use Rattle.plan_model.specs.Fits.{Fits, HasEachGroup, KeepsLink, group_count}
use Rattle.plan_model.specs.Gap.{gap, HasGaps, IsShown}
use Rattle.plan_model.specs.Rotation.{rotated, RotationLaw}
use Rattle.plan_model.proofs.Phase.{phase_rotated}
use Rattle.plan_model.proofs.IsShown.{fits_shown, shown_start}
use Rattle.plan_model.proofs.Gaps.{gaps_of_clear, spaced_fits}

rotated_start : (p : PlanView) (by i : ℕ) → i < length p.starts → start_of (rotated by p) i ≡ (start_of p i + by) % p.cycle
rotated_start p by i h = get_or-map (λ start. (start + by) % p.cycle) p.starts i 0 0 h

rotated_gap : (junction : JunctionView) (p : PlanView) (by i j : ℕ) → IsShown junction p → i < group_count junction → j < group_count junction →
    gap (rotated by p) i j ≡ gap p i j
rotated_gap junction p by i j shown hi hj =
    rw (rotated_start p by i (omega (arith, shown.groups.starts)), rotated_start p by j (omega (arith, shown.groups.starts)))
    (phase_rotated p.cycle (start_of p i) (start_of p j) by (shown_start junction p i shown hi) (shown_start junction p j shown hj))

rotated_each : (junction : JunctionView) (p : PlanView) (by : ℕ) → HasEachGroup junction p → HasEachGroup junction (rotated by p)
rotated_each junction p by each = record { starts = length-map p.starts _ ∙ each.starts; greens = each.greens }

rotated_starts : (p : PlanView) (by : ℕ) → 1 ≤ p.cycle → All (λ start. start < p.cycle) (rotated by p).starts
rotated_starts p by some = All-from_get_or (λ start. start < p.cycle) (rotated by p).starts 0 (λ i h.
    rw (rotated_start p by i (omega (arith, length-map p.starts (λ start. (start + by) % p.cycle)))) (mod-lt (start_of p i + by) some))

rotated_gaps : (junction : JunctionView) (p : PlanView) (by : ℕ) → IsShown junction p → HasGaps junction p → HasGaps junction (rotated by p)
rotated_gaps junction p by shown gaps i j w hi hj is = rw (rotated_gap junction p by i j shown hi hj) (gaps i j w hi hj is)

-- both starts of a link move alike
link_rotated : (c leader after follower by : ℕ) → follower ≡ (leader + after) % c → (follower + by) % c ≡ ((leader + by) % c + after) % c
link_rotated c leader after follower by kept =
    let moved : leader + after + by ≡ leader + by + after = omega arith in
    rw kept (mod-add-mod (leader + after) c by ∙ ap (λ n. n % c) moved ∙ sym (mod-add-mod (leader + by) c after))

rotated_links : (junction : JunctionView) (p : PlanView) (by : ℕ) → IsJunction junction → HasEachGroup junction p → All (KeepsLink p) junction.conflicts.links →
    All (KeepsLink (rotated by p)) junction.conflicts.links
rotated_links junction p by rules each kept k d h =
    let link = get_or junction.conflicts.links k d in
    let within = All-get_or (IsWithin junction.conflicts.groups) junction.conflicts.links k d h rules.conflicts.table.links.linkable.within in
    let same = rules.conflicts.same_groups in
    rw (rotated_start p by link.leader (omega (arith, within.leader, each.starts)), rotated_start p by link.follower (omega (arith, within.follower, each.starts)))
    (link_rotated p.cycle (start_of p link.leader) link.after (start_of p link.follower) by (kept k d h))

rotated_fits : (junction : JunctionView) (p : PlanView) (by : ℕ) → IsJunction junction → Fits junction p → Fits junction (rotated by p)
rotated_fits junction p by rules fits =
    let shown = fits_shown junction p rules fits in
    spaced_fits junction (rotated by p) rules (record {
      groups = rotated_each junction p by fits.groups;
      cycle = record { least = fits.cycle.least; greatest = fits.cycle.greatest };
      starts = rotated_starts p by shown.cycle;
      greens = fits.greens;
      longest = fits.longest;
      links = rotated_links junction p by rules fits.groups fits.links;
      gaps = rotated_gaps junction p by shown (gaps_of_clear junction p shown fits.clear);
    })

pub rotation_law : RotationLaw
rotation_law junction p by rules fits = record {
  fits = rotated_fits junction p by rules fits;
  gaps = λ i j. rotated_gap junction p by i j (fits_shown junction p rules fits);
  multipliers = λ k. refl;
  meets = λ m meets. record { fits = rotated_fits junction p by rules fits; reaches = meets.reaches };
  meets_target = λ lanes target meets. record {
    fits = rotated_fits junction p by rules fits;
    serves = λ k own counts. meets.serves k own (record { chosen = counts.chosen; multiplier = counts.multiplier });
  };
}
