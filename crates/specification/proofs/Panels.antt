-- What the ticket panel's find-and-run says: after 1 to 4, 20, and then what find-and-run says, which begins with the same 1 to 4.
use mathlib.Core.Path.{◌≡◌, refl, sym, ◌∙◌, ap}
use mathlib.Core.Bool.{Bool, true, false, ◌||◌}
use mathlib.Core.List.{List, []}
use Prim.Native.Nat.{ℕ}
use lib.ListN.{length}
use Rattle.specification.specs.Reply.{Reply, gives, refuses, Size, Outcome}
use Rattle.specification.specs.Book.{book_lots, book_calls, read_head, read_book}
use Rattle.specification.specs.Amounts.{read_amounts}
use Rattle.specification.specs.Find.{found_to_run, find_and_run, find_and_run_flow}
use Rattle.specification.specs.Panel.{above_eight, read_panel, find_and_run_panel, find_and_run_panel_flow}
use Rattle.specification.specs.Requests.{Alike, Request6}
use Rattle.specification.proofs.Replies.{not_both, said_of_given}
use Rattle.specification.proofs.Books.{head_says, headed_reads}

-- n or m is above 8
abbrev above : List ℕ → Bool
above book = above_eight (book_lots book) || above_eight (book_calls book)

module _ (book amounts flow : List ℕ) where
  -- a book that is refused by 1 to 4 is refused so by find-and-run too
  head_refused : (k : ℕ) (vs : List ℕ) → read_head book ≡ refuses k vs
      → (refuses k vs ≡ find_and_run book amounts flow) × (flow ≡ find_and_run_flow book amounts flow)
  unfolding read_book read_amounts found_to_run find_and_run find_and_run_flow
  head_refused k vs e = rw e (refl, refl)

  -- 20, with nothing written, or what find-and-run replies and writes
  data Panel : Type 0 where
    twenty : find_and_run_panel book amounts flow ≡ refuses 20 [] → find_and_run_panel_flow book amounts flow ≡ flow → Panel
    the_same : Alike book amounts flow → Panel

  panel_is : Panel
  unfolding read_panel find_and_run_panel find_and_run_panel_flow
  panel_is = by_head (read_head book) refl (above book) refl
    where
      by_head : (r : Reply Size) → read_head book ≡ r → (b : Bool) → above book ≡ b → Panel
      by_head (refuses k vs) e b t =
          let (reply, write) = head_refused k vs e in
          the_same (record { reply = rw e reply; writes = rw e write })
      by_head (gives n) e true t =
          let (sizes, headed) = said_of_given (head_says book) n e in
          twenty (rw (headed_reads book headed, t) refl) (rw (headed_reads book headed, t) refl)
      by_head (gives n) e false t =
          let (sizes, headed) = said_of_given (head_says book) n e in
          the_same (record { reply = rw (headed_reads book headed, t) refl; writes = rw (headed_reads book headed, t) refl })

  alike : (find_and_run_panel book amounts flow ≡ refuses 20 [] → ⊥) → Alike book amounts flow
  alike other = by_panel panel_is
    where
      by_panel : Panel → Alike book amounts flow
      by_panel (twenty reply _) = absurd (other reply)
      by_panel (the_same same) = same

  -- what it gives and what it keeps are as of find-and-run
  pub panel_given : (o : Outcome) → find_and_run_panel book amounts flow ≡ gives o
      → (find_and_run book amounts flow ≡ gives o) × (find_and_run_panel_flow book amounts flow ≡ find_and_run_flow book amounts flow)
  panel_given o e = let same = alike (not_both e) in (sym same.reply ∙ e, same.writes)

  pub panel_kept : (k : ℕ) (vs : List ℕ) → (find_and_run book amounts flow ≡ refuses k vs → find_and_run_flow book amounts flow ≡ flow)
      → find_and_run_panel book amounts flow ≡ refuses k vs → find_and_run_panel_flow book amounts flow ≡ flow
  panel_kept k vs kept refused = by_panel panel_is
    where
      by_panel : Panel → find_and_run_panel_flow book amounts flow ≡ flow
      by_panel (twenty _ write) = write
      by_panel (the_same same) = rw same.writes (kept (sym same.reply ∙ refused))

  pub length_panel : length (find_and_run_flow book amounts flow) ≡ length flow → length (find_and_run_panel_flow book amounts flow) ≡ length flow
  length_panel as_long = by_panel panel_is
    where
      by_panel : Panel → length (find_and_run_panel_flow book amounts flow) ≡ length flow
      by_panel (twenty _ write) = ap length write
      by_panel (the_same same) = rw same.writes as_long

pub request6 : Request6
request6 = record {
  alike = alike;
}
