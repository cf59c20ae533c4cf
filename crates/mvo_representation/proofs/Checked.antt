-- The check of a key, by words, is the state's.
use Rattle.std.proofs.Common.{◌≡◌, ℕ, ◌<◌, ◌≤◌, suc, Bool, true, false, cond, List, [], ◌∷◌, Option, None, Some, refl, sym, ap, ◌∙◌, arith}
use Rattle.std.specs.Prelude.{nat_lt, is_some, ◌&&◌}
use Rattle.std.specs.Option.{option_map}
use Rattle.std.proofs.lemmas.Bool.{le-ltb, ltb-false}
use Rattle.mvo_types.specs.declared.row.RowKey.{RowKey}
use Rattle.mvo_model.specs.History.{net_write}
use Rattle.mvo_types.specs.declared.entry.Entry.TheVariants.{Key}
use Rattle.mvo_theory.specs.State.{State, StampedTx}
use Rattle.mvo_theory.specs.Dependencies.{last_writer, is_writer, or_later}
use Rattle.mvo_theory.specs.Causes.{is_changer, last_end, or_first, change_of}
use Rattle.mvo_theory.specs.Sound.{IsSound, IsStarted, IsRising}
use Rattle.mvo_theory.proofs.Each.{each_weaker}
use Rattle.mvo_chain.specs.declared.version.Version.{Version}
use Rattle.mvo_representation.specs.Words.{Phases, ends_of, has_stamp, NetEffect, net_effect, last_change, change_below, if_above}
use Rattle.mvo_representation.specs.Versions.{AreVersionsOf}
use Rattle.mvo_representation.proofs.LastChanges.{change_by, change_of_last, first_of, last_holds}
use Rattle.mvo_representation.proofs.Shown.{deciding}
use Rattle.mvo_representation.proofs.Open.{last_change_within}

-- the last that changes the key between, by the last writer below the end
last_changer : (k : RowKey) (b e : ℕ) (xs : List StampedTx) → IsRising xs → last_end (is_changer b e (Key k)) xs ≡ if_above b (change_of_last k e xs)
last_changer k b e [] h = refl
last_changer k b e (x ∷ xs) h =
    ap (or_first (cond (is_changer b e (Key k) x) (Some x.end) None)) (last_changer k b e xs h.1)
    ∙ go (last_writer k e xs) refl
  where
    both : (p q r : Bool) → cond ((p && q) && r) (Some x.end) None ≡ if_above b (option_map (change_by k) (cond (q && r) (Some x) None)) → cond ((p && q) && r) (Some x.end) None ≡ if_above b (option_map (change_by k) (cond (q && r) (Some x) None))
    both p q r f = f

    alone : (p q r : Bool) → nat_lt b x.end ≡ p → cond ((p && q) && r) (Some x.end) None ≡ if_above b (option_map (change_by k) (cond (q && r) (Some x) None))
    alone true true true f = sym (ap (λ c. cond c (Some x.end) None) f)
    alone true true false f = refl
    alone true false r f = refl
    alone false true true f = sym (ap (λ c. cond c (Some x.end) None) f)
    alone false true false f = refl
    alone false false r f = refl

    later_wins : (y : StampedTx) (c : Bool) → nat_lt b y.end ≡ c → x.end < y.end → or_first (cond (is_changer b e (Key k) x) (Some x.end) None) (cond c (Some y.end) None) ≡ cond c (Some y.end) None
    later_wins y true f lt = refl
    later_wins y false f lt =
        ap (λ (d : Bool). cond ((d && nat_lt x.end e) && is_some (net_write k x.history)) (Some x.end) None) (le-ltb b x.end (let le : y.end ≤ b = ltb-false b y.end f in omega (arith, le, lt)))

    go : (w : Option StampedTx) → last_writer k e xs ≡ w → or_first (cond (is_changer b e (Key k) x) (Some x.end) None) (if_above b (option_map (change_by k) (last_writer k e xs))) ≡ if_above b (option_map (change_by k) (or_later (cond (is_writer k e x) (Some x) None) (last_writer k e xs)))
    go None f =
        ap (λ w. or_first (cond (is_changer b e (Key k) x) (Some x.end) None) (if_above b (option_map (change_by k) w))) f
        ∙ alone (nat_lt b x.end) (nat_lt x.end e) (is_some (net_write k x.history)) refl
        ∙ ap (λ w. if_above b (option_map (change_by k) (or_later (cond (is_writer k e x) (Some x) None) w))) (sym f)
    go (Some y) f =
        ap (λ w. or_first (cond (is_changer b e (Key k) x) (Some x.end) None) (if_above b (option_map (change_by k) w))) f
        ∙ later_wins y (nat_lt b y.end) refl (last_holds (λ z. x.end < z.end) k e xs y (each_weaker (λ z. x.end < z.end) (λ z. is_writer k e z ≡ true → x.end < z.end) (λ z l _. l) xs h.0) f)
        ∙ ap (λ w. if_above b (option_map (change_by k) (or_later (cond (is_writer k e x) (Some x) None) w))) (sym f)

-- for a key: the greatest stamp of a change between
pub key_checked : (s : State) (table : Phases) (vs : List Version) (b e : ℕ) (k : RowKey) → IsSound s → IsStarted s → AreVersionsOf s table vs → s.start ≤ b → b < e → if_above b (change_below (ends_of table) e k vs) ≡ change_of s.stamped b e (Key k)
key_checked s table vs b e k sd st h le lt =
    ap (if_above b) (deciding s table vs e k sd st h (record { from = omega arith; free = λ q j. absurd (omega arith) }))
    ∙ go (change_of_last k e s.stamped) (last_change (λ e. net_effect (has_stamp (ends_of table) e) k vs) (suc s.start)) refl
    ∙ sym (last_changer k b e s.stamped sd.rising)
  where
    go : (c t : Option (ℕ × NetEffect)) → last_change (λ e. net_effect (has_stamp (ends_of table) e) k vs) (suc s.start) ≡ t → if_above b (first_of c t) ≡ if_above b c
    go (Some p) t f = refl
    go None None f = refl
    go None (Some p) f = let l : p.0 < suc s.start = last_change_within (λ e. net_effect (has_stamp (ends_of table) e) k vs) (suc s.start) p f in ap (λ c. cond c (Some p.0) None) (le-ltb b p.0 (omega (arith, l, le)))
