-- Case analysis over the methods that are served.
use Rattle.std.specs.Prelude.{ℕ}
use Rattle.std.proofs.Common.{sym, subst, inl, inr}
use Rattle.turn_types_attributes.specs.TurnRegistry.{allocate_method, channel_bind_method, connect_method, connection_bind_method, create_permission_method, refresh_method}
use Rattle.turn_desk_core.specs.Requests.{IsServedMethod}

-- `P` holds for each method that is served.
pub record OfEach (P : ℕ → Type 0) : Type 0 where
  pub allocate : P allocate_method
  pub refresh : P refresh_method
  pub create_permission : P create_permission_method
  pub channel_bind : P channel_bind_method
  pub connect : P connect_method
  pub connection_bind : P connection_bind_method

pub by_method : (P : ℕ → Type 0) → OfEach P → (m : ℕ) → IsServedMethod m → P m
by_method P each m (inl (inl is)) = subst P (sym is) each.allocate
by_method P each m (inl (inr is)) = subst P (sym is) each.refresh
by_method P each m (inr (inl (inl is))) = subst P (sym is) each.create_permission
by_method P each m (inr (inl (inr is))) = subst P (sym is) each.channel_bind
by_method P each m (inr (inr (inl is))) = subst P (sym is) each.connect
by_method P each m (inr (inr (inr is))) = subst P (sym is) each.connection_bind
