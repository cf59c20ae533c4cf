-- A disk that lies has the files and the moments of the disk in memory under it.
use Rattle.std.proofs.Common.{◌≡◌, ◌&&◌, Bool, true, false, length, refl, sym, subst}
use Rattle.std.specs.Prelude.{IsTrue}
use Rattle.mvo_disk.specs.declared.memory.MemDisk.{MemDisk}
use Rattle.mvo_disk.specs.Disk.{AllOf, Elapses}
use Rattle.mvo_disk.specs.Record.{calls_of, images_of, left_since, GoesOn}

-- from one disk in memory to another, beside a flag
abbrev pub ElapsesBeside : MemDisk → MemDisk → Bool → Bool → Type 0
ElapsesBeside old new was is = Elapses (record { calls = length (calls_of old); honest = was }) (record { calls = length (calls_of new); honest = is })
    (λ t. left_since old t.calls) (λ t. left_since new t.calls) (AllOf (images_of new))

-- time goes on, and a wrong answer isn't forgotten
pub goes_on_so : (old new : MemDisk) (was is : Bool) → (IsTrue is → IsTrue was) → GoesOn old new → ElapsesBeside old new was is
goes_on_so old new was is still on = record {
  later = record { calls = on.later.calls; honest = still };
  nothing_else = λ t image le left. on.nothing_else (record { calls = t.calls; honest = true }) image (record { calls = le.calls; honest = λ h. refl }) left;
  keeps = λ t image le left. on.keeps (record { calls = t.calls; honest = true }) image (record { calls = le.calls; honest = λ h. refl }) left;
}

still_marked : (was right now : Bool) → now ≡ (was && right) → IsTrue now → IsTrue was
still_marked true right now is h = refl
still_marked false right now is h = absurd (cc (h, is))

-- so behind an answer, right or not
pub answered_so : (old mid new : MemDisk) (was seen right now : Bool) → new ≡ mid → seen ≡ was → now ≡ (seen && right) → GoesOn old mid → ElapsesBeside old new was now
answered_so old mid new was seen right now same as_was marked on =
    goes_on_so old new was now (still_marked was right now (subst (λ (b : Bool). now ≡ (b && right)) as_was marked)) (subst (λ (d : MemDisk). GoesOn old d) (sym same) on)
