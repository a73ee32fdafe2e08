use Rattle.std.proofs.Common.{◌≡◌, ◌+◌, ◌*◌, ◌-◌, ◌/◌, ◌%◌, ◌≤◌, [], ◌++◌, length, take, drop, get_or, sym, ap, ◌∙◌, ap₂, arith, rules}
use Rattle.std.proofs.lemmas.List.{append_assoc, append-nil, length-append, length-drop, length-take-le, take_all, drop_all}
use Rattle.std.proofs.lemmas.Slice.{take-put_mid}
use Rattle.modes.proofs.Loops.{paired, odd-one, two-more, follows}
use Rattle.modes.proofs.machine.run_whole.Goals as goal

pub loop-i-preserved : goal.loop-i-preserved
loop-i-preserved g c =
    let t = c.args.text.now in
    let i = c.loop-i.i in
    let m = g.B.Block.meaning c.args.block.now in
    let makes = g.T.Mode.makes in
    let a = c.turn_two.result.0 in
    let b = c.turn_two.result.1 in
    let pair = get_or c.as_chunks.result.0.now i [] in
    let left = drop (32 * (i + 1)) t in
    let size-a : length a ≡ 16 = search rules in
    let size-b : length b ≡ 16 = search rules in
    let pairs-size : length c.as_chunks.result.0.now ≡ length t / 16 / 2 = c.as_chunks.ensures.front_len ∙ ap (λ n. n / 2) c.whole_pieces.ensures.count in
    let room : length b ≤ length (take (32 * i + 32 - 32 * i) (drop (32 * i) c.loop-i.out)) - 16 =
    omega (arith, length-take-le (32 * i + 32 - 32 * i) (drop (32 * i) c.loop-i.out) (omega (arith, length-drop (32 * i) c.loop-i.out))) in
    let wrote : c.store_two.new.out ≡ a ++ b = c.store_two.ensures ∙ ap (λ z. a ++ z) (take_all _ b room) in
    let cut_up : drop (32 * i) t ≡ get_or pair 0 [] ++ (get_or pair 1 [] ++ left) =
    paired t c.whole_pieces.result.now c.as_chunks.result.0.now i c.whole_pieces.ensures.pieces c.as_chunks.ensures.front (omega arith) in (
      (λ x h.
          let more = follows left x g.T.Mode.LEAST g.met.T.Mode.sized (omega (arith, length-drop (32 * (i + 1)) t)) h in
          let step : makes c.loop-i.mode m (drop (32 * i) t ++ x) ≡ a ++ (b ++ makes c.turn_two.new.self m (left ++ x)) =
          ap (makes c.loop-i.mode m)
          (ap (λ z. z ++ x) cut_up ∙ append_assoc (get_or pair 0 []) (get_or pair 1 [] ++ left) x ∙ ap (λ z. get_or pair 0 [] ++ z) (append_assoc (get_or pair 1 []) left x))
          ∙ (rw c.loop-i.invariant.1 at (c.turn_two.ensures.answer (left ++ x) more)) in
          two-more c.loop-i.out _ a b _ _ _ (32 * i) (32 * (i + 1)) (c.loop-i.invariant.0 x h) step
          (take-put_mid (32 * i) (32 * i + 32 - 32 * i) c.loop-i.out c.store_two.new.out (32 * (i + 1)) (omega (arith, ap length wrote, length-append a b)) (omega arith) ∙ ap (λ z. take (32 * i) c.loop-i.out ++ z) wrote)),
      c.turn_two.ensures.same ∙ c.loop-i.invariant.1,
    )

pub returns-in-len1-clause-text : goal.returns-in-len1-clause-text
returns-in-len1-clause-text g c x h =
    let t = c.args.text.now in
    let out = c.loop-i.out in
    let m = g.B.Block.meaning c.args.block.now in
    let makes = g.T.Mode.makes in
    let p = get_or c.as_chunks.result.1.now 0 [] in
    let at = 32 * length c.as_chunks.result.0.now in
    let pairs-size : length c.as_chunks.result.0.now ≡ length t / 16 / 2 = c.as_chunks.ensures.front_len ∙ ap (λ n. n / 2) c.whole_pieces.ensures.count in
    let odd-size : length c.as_chunks.result.1.now ≡ length t / 16 % 2 = c.as_chunks.ensures.back_len ∙ ap (λ n. n % 2) c.whole_pieces.ensures.count in
    let i-is : c.loop-i.i ≡ length t / 16 / 2 = omega arith in
    let p-is : drop (32 * c.loop-i.i) t ≡ p =
    ap (λ k. drop (32 * k) t) i-is
    ∙ odd-one t c.whole_pieces.result.now c.as_chunks.result.1.now c.whole_pieces.ensures.pieces c.as_chunks.ensures.back c.requires.0 (omega arith) in
    let step : makes c.loop-i.mode m (drop (32 * c.loop-i.i) t ++ x) ≡ c.turn-c.result ++ makes c.turn-c.new.self m x =
    ap (λ z. makes c.loop-i.mode m (z ++ x)) p-is ∙ (rw c.loop-i.invariant.1 at (c.turn-c.ensures.answer x h)) in
    let r = c.turn-c.result in
    let at-is : 32 * c.loop-i.i ≡ at = omega arith in
    let past : drop (length out - at) (drop at out) ≡ [] = drop_all (length out - at) (drop at out) (omega (arith, length-drop at out)) in
    let put : r ≡ c.copy_from_slice.new.self ++ drop (length out - at) (drop at out) =
    sym (append-nil r) ∙ ap₂ ◌++◌ (sym c.copy_from_slice.ensures.after) (sym past) in
    c.loop-i.invariant.0 x h ∙ ap₂ (λ k z. take k out ++ z) at-is step ∙ sym (append_assoc (take at out) r (makes c.turn-c.new.self m x))
    ∙ ap (λ w. (take at out ++ w) ++ makes c.turn-c.new.self m x) put
