-- `sound::records::has_records` meets its contract: `Merging`, and the owners so far. Assumes nothing.
use Rattle.std.proofs.Common.{rules, arith, ◌≡◌, get_or, refl, sym, ◌∙◌}
use Rattle.terms.specs.Words.{num, txn}
use Rattle.rules.specs.Raw.{unpack, zero_row}
use Rattle.sound.proofs.Filed.{filed_is}
use Rattle.sound.proofs.Merging.{merge_bad, merge_end, merge_next, merge_past, owners_more}
use Rattle.sound.proofs.records.has_records.Goals as goal

pub returns-then-not-is_filed-clause-is : goal.returns-then-not-is_filed-clause-is
returns-then-not-is_filed-clause-is c =
    let a = c.args in
    let k = c.loop-j in
    merge_bad a.count a.used.now a.filed.now k.last c.loop-i.i k.j k.invariant.0 (search rules) (search rules) (grind arith) (sym c.is_filed.ensures ∙ c.if-not-is_filed.true)
    ∙ filed_is _ _ refl

pub loop-j-preserved : goal.loop-j-preserved
loop-j-preserved c =
    let a = c.args in
    let k = c.loop-j in
    let own : num (get_or a.used.now c.loop-i.i zero_row) ≡ txn (unpack (get_or a.filed.now k.j 0)) = grind arith in (
      rw c.key_of-last.ensures (merge_next a.count a.used.now a.filed.now k.last c.loop-i.i k.j k.invariant.0 (search rules) (search rules) own (sym c.is_filed.ensures ∙ c.if-not-is_filed.false)),
      owners_more k.j c.loop-i.i a.used.now a.filed.now k.owners k.invariant.1 (search rules) (search rules) own,
      search rules,
    )

pub loop-i-preserved : goal.loop-i-preserved
loop-i-preserved c =
    let a = c.args in
    let k = c.loop-j in
    (merge_past a.count a.used.now a.filed.now k.last c.loop-i.i k.j k.invariant.0 c.requires.1 (search rules) (λ l e. grind arith), k.invariant.1, k.invariant.2)

pub returns-clause-is : goal.returns-clause-is
returns-clause-is c =
    let a = c.args in
    let k = c.loop-i in
    merge_end a.count a.used.now a.filed.now k.last k.i k.j k.invariant.0 (search rules) k.invariant.2 ∙ filed_is _ _ refl
