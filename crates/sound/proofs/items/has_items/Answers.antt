-- `sound::items::has_items` meets its contract: `Passing`. Assumes nothing.
use Rattle.std.proofs.Common.{rules, ℕ, replicate, get_or, refl, sym, ap, ◌∙◌}
use Rattle.std.specs.Int.Bits.{bit_and}
use Rattle.graph.specs.Sets.{member}
use Rattle.sound.proofs.Installing.{met_start}
use Rattle.sound.proofs.Passing.{pass_read, pass_start, pass_write, set_below}
use Rattle.sound.proofs.Telling.{items_mixed, items_passed, items_unseen, word_at}
use Rattle.sound.proofs.items.has_items.Goals as goal
use Rattle.sound.proofs.items.has_items.Goals.{then-is_install+else-not-is_unmixed, else-is_install+else-not-is_seen}

pub loop-j-init : goal.loop-j-init
loop-j-init c =
    let a = c.args in
    pass_start 32 a.used.now a.filed.now a.owners.now a.writers.now (replicate {A = ℕ} 256 0) (met_start a.used.now a.filed.now (replicate {A = ℕ} 256 0) refl)

pub returns-then-not-is_unmixed : goal.returns-then-not-is_unmixed
returns-then-not-is_unmixed c =
    let a = c.args in
    let s = c.requires in
    let k = c.loop-j in
    let i = c.item_of-e in
    let z = c.is_unmixed.ensures.1 (c.if-not-is_unmixed.true) in
    items_mixed 32 a.used.now a.filed.now a.owners.now c.earlier-early.result a.writers.now s.0 s.2 s.4 s.5 c.earlier-early.ensures
    k.wrote k.j k.invariant.met (search rules) (sym c.is_install.ensures ∙ c.if-is_install.true) z.0 (ap (λ (e : ℕ). member (get_or k.wrote e 0) z.0) (sym i.ensures.item) ∙ z.1) z.2

pub is_seen-requires : goal.is_seen-requires
is_seen-requires c =
    let a = c.args in
    let s = c.requires in
    let k = c.loop-j in
    λ j h. set_below 32 a.used.now a.filed.now a.owners.now c.earlier-early.result s.2 s.4 s.5 c.earlier-early.ensures k.wrote k.j k.invariant.met (search rules) j
    (ap (λ (e : ℕ). member (bit_and (get_or k.wrote e 0) (get_or c.earlier-early.result (get_or a.owners.now k.j 0) 0)) j) (sym c.item_of-e.ensures.item) ∙ h)

pub returns-then-not-is_seen : goal.returns-then-not-is_seen
returns-then-not-is_seen c =
    let a = c.args in
    let s = c.requires in
    let k = c.loop-j in
    let early = c.earlier-early.result in
    let o = get_or a.owners.now k.j 0 in
    let p = get_or a.filed.now k.j 0 in
    let test = c.is_seen.ensures ∙ word_at p a.used.now a.writers.now k.wrote (get_or early o 0) refl c.item_of-e.ensures.item in
    items_unseen 32 a.used.now a.filed.now a.owners.now early a.writers.now s.0 s.2 s.4 s.5 c.earlier-early.ensures
    k.wrote k.j k.invariant.met (search rules) (sym test ∙ c.if-not-is_seen.true)

pub loop-j-preserved : goal.loop-j-preserved
loop-j-preserved c =
    let a = c.args in
    let s = c.requires in
    let k = c.loop-j in
    let early = c.earlier-early.result in
    let i = c.item_of-e in
    elim c.if-is_install.branch [
      | then-is_install+else-not-is_unmixed w ↦
          rw (w.wrote-is, w.with.ensures)
          (pass_write 32 a.used.now a.filed.now a.owners.now early s.2 s.4 s.5 c.earlier-early.ensures
          k.wrote k.j k.invariant.met (search rules) a.writers.now k.invariant (sym c.is_install.ensures ∙ w.if-is_install.true)
          (λ j h. w.is_unmixed.ensures.0 w.if-not-is_unmixed.false j (ap (λ (e : ℕ). member (get_or k.wrote e 0) j) i.ensures.item ∙ h)) i.result.0 i.ensures.item i.ensures.small)
      | else-is_install+else-not-is_seen w ↦
          let test = w.is_seen.ensures ∙ word_at (get_or a.filed.now k.j 0) a.used.now a.writers.now k.wrote (get_or early (get_or a.owners.now k.j 0) 0) refl i.ensures.item in
          rw w.wrote-is
          (pass_read 32 a.used.now a.filed.now a.owners.now early s.2 s.4 s.5 c.earlier-early.ensures
          k.wrote k.j k.invariant.met (search rules) a.writers.now k.invariant (sym c.is_install.ensures ∙ w.if-is_install.false) (sym test ∙ w.if-not-is_seen.false))
    ]

pub returns : goal.returns
returns c =
    let a = c.args in
    let s = c.requires in
    let k = c.loop-j in
    items_passed 32 a.used.now a.filed.now a.owners.now c.earlier-early.result a.writers.now s.0 s.2 s.4 s.5 c.earlier-early.ensures k.invariant (search rules)
