use Rattle.std.proofs.Common.{◌≡◌, ◌<◌, ◌+◌, true, length, Some, slice_get, get_or, refl, sym, ap, ◌∙◌, arith}
use Rattle.std.proofs.lemmas.Bool.{false≢true}
use Rattle.std.proofs.lemmas.Option.{slice_get-get_or}
use Rattle.csv.specs.Records.{fields_of}
use Rattle.log_monitor.proofs.Fields.{header_first, header_name, header_all, names_more}
use Rattle.log_monitor.proofs.record.is_header.Goals as goal

pub returns-then-not-is_field : goal.returns-then-not-is_field
returns-then-not-is_field c = (
  λ f. absurd (false≢true f),
  λ e. let yes = c.is_field.ensures.1 (header_first c.args.junction.now (fields_of c.args.read.now) e) in let no = c.if-not-is_field.true in cc,
)

pub returns-then-not-is_field-2 : goal.returns-then-not-is_field-2
returns-then-not-is_field-2 c =
    let junction = c.args.junction.now in
    let fields = fields_of c.args.read.now in
    let i = c.loop-i.i in
    let default = c.index-groups-i.result in
    let own = get_or c.groups-groups.result.now i default in
    let inside : i < length junction.groups = omega (arith, c.loop-i-test.true, ap length c.groups-groups.ensures.value) in
    let there : slice_get junction.groups i ≡ Some own = slice_get-get_or junction.groups i default inside ∙ ap (λ xs. Some (get_or xs i default)) (sym c.groups-groups.ensures.value) in (
      λ f. absurd (false≢true f),
      λ e. let yes = c.is_field-in-loop-i.ensures.1 (header_name junction fields i own e there ∙ ap Some (sym c.bytes.ensures.value)) in let no = c.if-not-is_field-2.true in cc,
    )

pub loop-i-preserved : goal.loop-i-preserved
loop-i-preserved c =
    let junction = c.args.junction.now in
    let fields = fields_of c.args.read.now in
    let i = c.loop-i.i in
    let default = c.index-groups-i.result in
    let own = get_or c.groups-groups.result.now i default in
    let inside : i < length junction.groups = omega (arith, c.loop-i-test.true, ap length c.groups-groups.ensures.value) in
    let there : slice_get junction.groups i ≡ Some own = slice_get-get_or junction.groups i default inside ∙ ap (λ xs. Some (get_or xs i default)) (sym c.groups-groups.ensures.value) in
    let passed : c.is_field-in-loop-i.result ≡ true = c.if-not-is_field-2.false in
    names_more junction fields i own c.loop-i.invariant there (c.is_field-in-loop-i.ensures.0 passed ∙ ap Some c.bytes.ensures.value)

pub returns : goal.returns
returns c =
    let junction = c.args.junction.now in
    let fields = fields_of c.args.read.now in
    let passed : c.is_field.result ≡ true = c.if-not-is_field.false in
    let groups = ap length c.groups-groups.ensures.value in
    let size : length fields ≡ length junction.groups + 1 = omega (arith, groups, c.len.ensures, c.if-len-groups.false) in
    (λ _. header_all junction fields c.loop-i.i size (c.is_field.ensures.0 passed) (omega (arith, groups, c.loop-i-test.false)) c.loop-i.invariant, λ _. refl)
