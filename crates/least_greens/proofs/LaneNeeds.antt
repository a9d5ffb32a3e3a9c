-- The least green for one lane, and for one lane more.
use Rattle.std.proofs.Common.{ℕ, ◌≡◌, ◌+◌, ◌<◌, ◌≤◌, max, length, arith, below_more}
use Rattle.std.specs.Prelude.{Option, None, Some, IsSomeAnd, slice_get}
use Rattle.std.proofs.lemmas.Option.{slice_get_within}
use Rattle.sig_base.specs.declared.lane_set.LaneSet.{LaneSet}
use Rattle.sig_base.specs.declared.target.Target.{Target}
use Rattle.flow_model.specs.declared.lane.Lane.{Lane}
use Rattle.junction_model.specs.declared.group.Group.{Group}
use Rattle.junction_model.specs.Junction.{JunctionView}
use Rattle.plan_model.specs.Multiplier.{Serves}
use Rattle.plan_model.specs.Serving.{multiplier_under}
use Rattle.least_greens.specs.LeastFrom.{IsLeastFrom, ServesAt, ServesBelow, IsLaneNeed, IsNeedBelow}
use Rattle.least_greens.specs.Need.{CountsForGroup, IsNeed}

pub asked_need : (junction : JunctionView) (lanes : LaneSet) (target : Target) (cycle i k least : ℕ) (group : Group) (lane : Lane) →
    slice_get junction.groups i ≡ Some group → CountsForGroup junction lanes i k lane →
    IsLeastFrom group.times.min_green (λ green. Serves target (multiplier_under lane group.times cycle green)) least →
    IsLaneNeed junction lanes target cycle i k least
asked_need junction lanes target cycle i k least group lane there asked is = rw there (record {
  most = is.most;
  exactly = λ green long within. (
    λ serves. (is.exactly green long within).0 (serves lane asked),
    λ h other also. let same : lane ≡ other = cc (asked.there, also.there) in rw same at ((is.exactly green long within).1 h),
  );
})

pub free_need : (junction : JunctionView) (lanes : LaneSet) (target : Target) (cycle i k : ℕ) (group : Group) → slice_get junction.groups i ≡ Some group →
    ((lane : Lane) → ¬ CountsForGroup junction lanes i k lane) → IsLaneNeed junction lanes target cycle i k 0
free_need junction lanes target cycle i k group there none = rw there (record {
  most = omega arith;
  exactly = λ green long within. (λ _. omega arith, λ _ lane asked. absurd (none lane asked));
})

pub no_lane : (junction : JunctionView) (lanes : LaneSet) (target : Target) (cycle i : ℕ) (group : Group) → slice_get junction.groups i ≡ Some group →
    group.times.min_green ≤ 301 → IsNeedBelow junction lanes target cycle i 0 group.times.min_green
no_lane junction lanes target cycle i group there short = rw there (
  omega arith,
  record {
    most = short;
    exactly = λ green long within. (λ _. long, λ _ k below. absurd (omega arith));
  },
)

greater : (junction : JunctionView) (lanes : LaneSet) (target : Target) (cycle i n need least : ℕ) (o : Option Group) →
    IsSomeAnd o (λ (group : Group). (group.times.min_green ≤ need) × IsLeastFrom group.times.min_green (ServesBelow junction lanes target group.times cycle i n) need) →
    IsSomeAnd o (λ (group : Group). IsLeastFrom group.times.min_green (ServesAt junction lanes target group.times cycle i n) least) →
    IsSomeAnd o (λ (group : Group). (group.times.min_green ≤ max need least) × IsLeastFrom group.times.min_green (ServesBelow junction lanes target group.times cycle i (n + 1)) (max need least))
greater junction lanes target cycle i n need least None below own = absurd (below)
greater junction lanes target cycle i n need least (Some group) below own = (
  omega (arith, below.0),
  record {
    most = omega (arith, below.1.most, own.most);
    exactly = λ green long within.
        let before = below.1.exactly green long within in
        let here = own.exactly green long within in (
          λ serves. omega (arith, before.0 (λ k h. serves k (omega arith)), here.0 (serves n (omega arith))),
          λ h. below_more (λ k. ServesAt junction lanes target group.times cycle i k green) n (before.1 (omega (arith, h))) (here.1 (omega (arith, h))),
        );
  },
)

pub with_lane : (junction : JunctionView) (lanes : LaneSet) (target : Target) (cycle i n need least : ℕ) →
    IsNeedBelow junction lanes target cycle i n need → IsLaneNeed junction lanes target cycle i n least →
    IsNeedBelow junction lanes target cycle i (n + 1) (max need least)
with_lane junction lanes target cycle i n need least = greater junction lanes target cycle i n need least (slice_get junction.groups i)

-- the least green of all lanes is the need where the group may have it
need_allowed : (junction : JunctionView) (lanes : LaneSet) (target : Target) (cycle i n need : ℕ) (group : Group) → 1 ≤ group.times.min_green →
    slice_get junction.groups i ≡ Some group → length junction.lanes ≤ n → need ≤ group.times.max_green → group.times.min_green ≤ need →
    IsLeastFrom group.times.min_green (ServesBelow junction lanes target group.times cycle i n) need → IsNeed junction lanes target cycle i need
need_allowed junction lanes target cycle i n need group shown there all allowed long is =
    record {
      some = omega arith;
      most = is.most;
      enough = λ within. record {
        minimum = λ other also. let same : group ≡ other = cc in rw same at long;
        maximum = λ other also. let same : group ≡ other = cc in rw same at allowed;
        serves = λ other k lane also asked.
            let same : group ≡ other = cc in
            let inside : k < length junction.lanes = slice_get_within junction.lanes k lane asked.there in
            rw same at ((is.exactly need long within).1 (omega arith) k (omega arith) lane asked);
      };
      least = λ green some below enough.
          let least : need ≤ green = (is.exactly green (enough.minimum group there) (omega (arith, is.most))).0
          (λ k _ lane asked. enough.serves group k lane there asked) in
          omega arith;
    }

-- and else no green is enough
need_past : (junction : JunctionView) (lanes : LaneSet) (target : Target) (cycle i n need : ℕ) (group : Group) → slice_get junction.groups i ≡ Some group →
    group.times.max_green < need → IsLeastFrom group.times.min_green (ServesBelow junction lanes target group.times cycle i n) need →
    IsNeed junction lanes target cycle i 301
need_past junction lanes target cycle i n need group there past is = record {
  some = omega arith;
  most = omega arith;
  enough = λ within. absurd (omega arith);
  least = λ green some below enough.
      let least : need ≤ green = (is.exactly green (enough.minimum group there) (omega arith)).0 (λ k _ lane asked. enough.serves group k lane there asked) in
      let most = enough.maximum group there in
      omega arith;
}

pub allowed_need : (junction : JunctionView) (lanes : LaneSet) (target : Target) (cycle i n need : ℕ) (group : Group) → 1 ≤ group.times.min_green →
    slice_get junction.groups i ≡ Some group → length junction.lanes ≤ n → need ≤ group.times.max_green → IsNeedBelow junction lanes target cycle i n need →
    IsNeed junction lanes target cycle i need
allowed_need junction lanes target cycle i n need group shown there all allowed below =
    let is = rw there at below in
    need_allowed junction lanes target cycle i n need group shown there all allowed is.0 is.1

pub past_need : (junction : JunctionView) (lanes : LaneSet) (target : Target) (cycle i n need : ℕ) (group : Group) → slice_get junction.groups i ≡ Some group →
    group.times.max_green < need → IsNeedBelow junction lanes target cycle i n need → IsNeed junction lanes target cycle i 301
past_need junction lanes target cycle i n need group there past below =
    let is = rw there at below in
    need_past junction lanes target cycle i n need group there past is.1
