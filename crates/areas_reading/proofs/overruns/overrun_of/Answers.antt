use Rattle.std.proofs.Common.{◌≡◌, length, None, sym, ap, ◌∙◌, rules}
use Rattle.areas.specs.Plan.{areas_of, plan}
use Rattle.areas_reading.proofs.Beyond.{of_none, of_defect, of_sole, of_second, defect_is}
use Rattle.areas.proofs.Parts.{length-plan}
use Rattle.areas_reading.proofs.Shows.{records_is}
use Rattle.areas_reading.proofs.overruns.overrun_of.Goals as goal

pub returns-in_err-i : goal.returns-in_err-i
returns-in_err-i c =
    let told : c.from_residual.result ≡ None = search rules in
    told ∙ of_none c.args.section (areas_of c.args.section (plan c.args.medium.now)) c.in_err-i.ensures

pub returns-in-Some : goal.returns-in-Some
returns-in-Some c =
    let f = c.in_ok-i.ensures in
    let a = f.area in
    let e = c.part-area.ensures.reads ∙ f.here in
    let n = c.count_records-number.ensures ∙ ap length (sym (records_is c.part-area.result.now a e)) in
    of_defect c.args.section c.count_records-number.result c.in-Some.what a (areas_of c.args.section (plan c.args.medium.now)) _ f.first n (defect_is c.part-area.result.now a e ∙ sym c.in-Some.ensures)

pub overflow_add-i : goal.overflow_add-i
overflow_add-i c =
    let f = c.in_ok-i.ensures in
    let w = f.within in
    let l = length-plan c.args.medium.now in
    search rules

pub returns-in_err-find : goal.returns-in_err-find
returns-in_err-find c =
    let f = c.in_ok-i.ensures in
    let a = f.area in
    let e = c.part-area.ensures.reads ∙ f.here in
    c.from_residual-in_err-find.ensures ∙ of_sole c.args.section a (areas_of c.args.section (plan c.args.medium.now)) _ f.first (defect_is c.part-area.result.now a e ∙ sym c.in_default.ensures) c.in_err-find.ensures

pub returns : goal.returns
returns c =
    let f = c.in_ok-i.ensures in
    let g = c.in_ok-find.ensures in
    let a = f.area in
    let e = c.part-area.ensures.reads ∙ f.here in
    let n = c.count_records-number.ensures ∙ ap length (sym (records_is c.part-area.result.now a e)) in
    of_second c.args.section c.count_records-number.result a g.area (areas_of c.args.section (plan c.args.medium.now)) _ _ f.first n (defect_is c.part-area.result.now a e ∙ sym c.in_default.ensures) g.first
