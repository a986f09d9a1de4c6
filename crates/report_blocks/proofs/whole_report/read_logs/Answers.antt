use Rattle.std.proofs.Common.{rules, codes, ◌≡◌, ◌++◌, List, ℕ, Option, Some, IsSomeAnd, sym, ◌∙◌, ap}
use Rattle.scenario.specs.Canonical.{canonical_text}
use Rattle.report_blocks.proofs.Outcomes.{nothing_found}
use Rattle.report_blocks.proofs.ReportLines.{only_these, other_first, other_line_next, other_scenario, reads_back}
use Rattle.report_blocks.proofs.whole_report.read_logs.Goals as goal

pub returns-in_default-clause-bad : goal.returns-in_default-clause-bad
returns-in_default-clause-bad c =
    other_first c.args.scenario c.args.text.now (λ rest is. nothing_found c.after.result (λ x. x.now ≡ rest) c.in_default.not-Some (c.after.ensures.only rest is))

pub returns-in_default-behind_scenario-clause-bad : goal.returns-in_default-behind_scenario-clause-bad
returns-in_default-behind_scenario-clause-bad c =
    let spelled : c.as_str.result.now ≡ canonical_text c.args.scenario = search rules in
    other_scenario c.args.scenario c.args.text.now c.in-Some.lines.now c.in-Some.ensures.found
    (λ rest is next. nothing_found c.behind_scenario.result (λ x. x.now ≡ rest) c.in_default-behind_scenario.not-Some
    (c.behind_scenario.ensures.only rest (is ∙ ap (λ (t : List ℕ). t ++ rest) (sym spelled)) next))

pub returns-in-Ok-clause-found : goal.returns-in-Ok-clause-found
returns-in-Ok-clause-found c =
    let spelled : c.as_str.result.now ≡ canonical_text c.args.scenario = search rules in
    let rest = c.in-Some-behind_scenario.rest.now in
    reads_back c.args.scenario c.as_slice.result.now c.args.text.now c.in-Some.lines.now rest (c.in-Ok.board.items, c.in-Ok.files.items) (c.from_vec.result, c.from_vec-in-Ok.result) c.as_slice.ensures c.from_vec.ensures c.from_vec-in-Ok.ensures
    c.in-Some.ensures.found
    (c.in-Some-behind_scenario.ensures.found.0 ∙ ap (λ (t : List ℕ). t ++ rest) spelled) c.in-Ok.ensures.read.0 c.in-Ok.ensures.read.1

pub returns-in-Ok-clause-only : goal.returns-in-Ok-clause-only
returns-in-Ok-clause-only c =
    let spelled : c.as_str.result.now ≡ canonical_text c.args.scenario = search rules in
    let rest = c.in-Some-behind_scenario.rest.now in
    only_these c.args.scenario c.as_slice.result.now c.args.text.now (c.from_vec.result, c.from_vec-in-Ok.result) c.as_slice.ensures c.in-Ok.ensures.levels
    (reads_back c.args.scenario c.as_slice.result.now c.args.text.now c.in-Some.lines.now rest (c.in-Ok.board.items, c.in-Ok.files.items) (c.from_vec.result, c.from_vec-in-Ok.result) c.as_slice.ensures c.from_vec.ensures c.from_vec-in-Ok.ensures
    c.in-Some.ensures.found
    (c.in-Some-behind_scenario.ensures.found.0 ∙ ap (λ (t : List ℕ). t ++ rest) spelled) c.in-Ok.ensures.read.0 c.in-Ok.ensures.read.1)

pub returns-in-Err-At-clause-bad : goal.returns-in-Err-At-clause-bad
returns-in-Err-At-clause-bad c =
    let spelled : c.as_str.result.now ≡ canonical_text c.args.scenario = search rules in
    let rest = c.in-Some-behind_scenario.rest.now in
    other_line_next c.args.scenario c.as_slice.result.now c.args.text.now c.in-Some.lines.now rest c.in-Err-At.field-0 c.in-Err-At.left c.line_at.result c.as_slice.ensures c.in-Err-At.field-0-is
    c.in-Some.ensures.found
    (c.in-Some-behind_scenario.ensures.found.0 ∙ ap (λ (t : List ℕ). t ++ rest) spelled) c.in-Some-behind_scenario.ensures.found.1 c.in-Err-At.ensures.failed c.line_at.ensures
