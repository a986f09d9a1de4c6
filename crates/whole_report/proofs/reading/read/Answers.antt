use Rattle.std.proofs.Common.{◌≡◌, sym}
use Rattle.report_blocks.proofs.Outcomes.{nothing_found}
use Rattle.whole_scenario.specs.Canonical.{canonical_text}
use Rattle.whole_report.proofs.OneReport.{made}
use Rattle.whole_report.proofs.OneScenario.{found_in}
use Rattle.whole_report.proofs.ReportLines.{none_parted, only_these, other_first, other_line_next, other_scenario, reads_back}
use Rattle.whole_report.proofs.reading.read.Goals as goal

pub returns-in_default-clause-bad : goal.returns-in_default-clause-bad
returns-in_default-clause-bad c = other_first c.args.text.now (λ rest is. nothing_found c.after.result (λ x. x.now ≡ rest) c.in_default.not-Some (c.after.ensures.only rest is))

pub returns-in_default-parted-clause-bad : goal.returns-in_default-parted-clause-bad
returns-in_default-parted-clause-bad c =
    let lines = c.in-Some.lines.now in
    other_scenario c.args.text.now lines c.in-Some.ensures.found
    (λ s rest kept is next. nothing_found c.parted.result (λ p. (p.0.now ≡ canonical_text s) × (p.1.now ≡ rest)) c.in_default-parted.not-Some
    (c.parted.ensures.only (canonical_text s) rest next is
    (none_parted c.canonical_text_is_plain.ensures c.canonical_text_spells.ensures c.text_spells_one.ensures s lines rest kept is)))

pub returns-in_default-2-clause-bad : goal.returns-in_default-2-clause-bad
returns-in_default-2-clause-bad c =
    let lines = c.in-Some.lines.now in
    other_scenario c.args.text.now lines c.in-Some.ensures.found
    (λ s rest kept is next.
    let parts = c.in-Some-parted.ensures.only (canonical_text s) rest next is
    (none_parted c.canonical_text_is_plain.ensures c.canonical_text_spells.ensures c.text_spells_one.ensures s lines rest kept is) in
    c.in_default-2.not-Some s (c.in_ok-scenario.ensures.only s kept (sym parts.0)))

pub returns-in-Ok-clause-found : goal.returns-in-Ok-clause-found
returns-in-Ok-clause-found c =
    let front = c.in-Some-parted.front.now in
    let kept = found_in c.in_ok-scenario.field-0 c.in-Some-2.scenario front c.in-Some-2.is c.in_ok-scenario.ensures.found in
    reads_back c.in-Some-2.scenario c.as_slice.result.now c.args.text.now c.in-Some.lines.now front c.in-Some-parted.rest.now (c.in-Ok.board.items, c.in-Ok.files.items)
    (c.from_vec.result, c.from_vec-in-Ok.result) kept.0 kept.1 c.as_slice.ensures c.from_vec.ensures c.from_vec-in-Ok.ensures c.in-Some.ensures.found c.in-Some-parted.ensures.found.0
    c.in-Ok.ensures.read.0 c.in-Ok.ensures.read.1

pub returns-in-Ok-clause-only : goal.returns-in-Ok-clause-only
returns-in-Ok-clause-only c =
    let front = c.in-Some-parted.front.now in
    let kept = found_in c.in_ok-scenario.field-0 c.in-Some-2.scenario front c.in-Some-2.is c.in_ok-scenario.ensures.found in
    only_these c.canonical_text_is_plain.ensures c.canonical_text_spells.ensures c.text_spells_one.ensures
    (made c.in-Some-2.scenario (c.from_vec.result, c.from_vec-in-Ok.result)) c.args.text.now
    (reads_back c.in-Some-2.scenario c.as_slice.result.now c.args.text.now c.in-Some.lines.now front c.in-Some-parted.rest.now (c.in-Ok.board.items, c.in-Ok.files.items)
    (c.from_vec.result, c.from_vec-in-Ok.result) kept.0 kept.1 c.as_slice.ensures c.from_vec.ensures c.from_vec-in-Ok.ensures c.in-Some.ensures.found c.in-Some-parted.ensures.found.0
    c.in-Ok.ensures.read.0 c.in-Ok.ensures.read.1)

pub returns-in-Err-At-clause-bad : goal.returns-in-Err-At-clause-bad
returns-in-Err-At-clause-bad c =
    let front = c.in-Some-parted.front.now in
    let kept = found_in c.in_ok-scenario.field-0 c.in-Some-2.scenario front c.in-Some-2.is c.in_ok-scenario.ensures.found in
    other_line_next c.canonical_text_is_plain.ensures c.canonical_text_spells.ensures c.text_spells_one.ensures
    c.in-Some-2.scenario c.as_slice.result.now c.args.text.now c.in-Some.lines.now front c.in-Some-parted.rest.now c.in-Err-At.field-0 c.in-Err-At.left c.line_at.result
    kept.0 kept.1 c.as_slice.ensures c.in-Err-At.field-0-is c.in-Some.ensures.found c.in-Some-parted.ensures.found.0 c.in-Some-parted.ensures.found.1 c.in-Err-At.ensures.failed c.line_at.ensures
