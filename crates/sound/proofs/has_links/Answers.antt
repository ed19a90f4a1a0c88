-- `sound::has_links` meets its contract: the records, the writers, the items. Assumes nothing.
use Rattle.std.proofs.Common.{sym, ◌∙◌}
use Rattle.sound.proofs.Telling.{links_told, links_unbased, links_unfiled}
use Rattle.sound.proofs.has_links.Goals as goal
use Rattle.sound.proofs.has_links.Goals.{then-has_records, else-has_records}

pub returns-then-has_base : goal.returns-then-has_base
returns-then-has_base c =
    let a = c.args in
    elim c.if-has_records.branch [
      | then-has_records w ↦
          links_told a.count a.next a.writers.now a.used.now a.filed.now (sym c.has_records.ensures.is ∙ w.if-has_records.true)
          (sym w.has_base.ensures ∙ sym w.value-is ∙ c.if-has_base.true) c.has_items.ensures
      | else-has_records w ↦ cc
    ]

pub returns-else-has_base : goal.returns-else-has_base
returns-else-has_base c =
    let a = c.args in
    elim c.if-has_records.branch [
      | then-has_records w ↦
          rw c.if-has_base.false
          (links_unbased a.count a.next a.writers.now a.used.now a.filed.now (sym c.has_records.ensures.is ∙ w.if-has_records.true)
          (sym w.has_base.ensures ∙ sym w.value-is ∙ c.if-has_base.false))
      | else-has_records w ↦
          rw c.if-has_base.false (links_unfiled a.count a.next a.writers.now a.used.now a.filed.now (sym c.has_records.ensures.is ∙ w.if-has_records.false))
    ]
