-- What holds of the writes that a loop has passed.
use Rattle.std.proofs.Common.{ℕ, ◌+◌, ◌<◌, List, length, map, take, get_or, sym, subst}
use Rattle.std.specs.List.{All}
use Rattle.std.proofs.lemmas.List.{take_more, map_push, get_or-map, length-map}
use Rattle.std.proofs.lemmas.List.Elements.{All-push}
use Rattle.mvo_types.specs.Write.{Write}
use Rattle.mvo_group.specs.declared.write.Write.{Write as RustWrite}
use Rattle.mvo_group.specs.Data.{write_data}

pub kept_more : (P : Write → Type 0) (ws : List RustWrite) (i : ℕ) (d : RustWrite) → i < length ws → All P (map write_data (take i ws)) → P (write_data (get_or ws i d)) → All P (map write_data (take (i + 1) ws))
kept_more P ws i d lt all p =
    subst (λ (l : List RustWrite). All P (map write_data l)) (sym (take_more ws i d lt))
    (subst (λ (l : List Write). All P l) (sym (map_push write_data (take i ws) (get_or ws i d))) (All-push P (map write_data (take i ws)) (write_data (get_or ws i d)) all p))

pub kept_at : (P : Write → Type 0) (ws : List RustWrite) (i : ℕ) (d : RustWrite) → i < length ws → All P (map write_data ws) → P (write_data (get_or ws i d))
kept_at P ws i d lt all = subst P (get_or-map write_data ws i d (write_data d) lt) (all i (write_data d) (simp length-map lt))
